pub mod NumberedChecks
