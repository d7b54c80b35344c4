mod Pairs
mod PieceCodes
mod CodeLaws
mod PlaceLaws
mod StartLaws
mod LocalLaws
