pub mod KeptChecks
