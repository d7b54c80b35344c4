mod PatternLemmas
pub mod BitNumbers
mod MaskLemmas
mod LocalLemmas
mod Steps
