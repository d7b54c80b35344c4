mod Filtered
mod EdgesPut
mod NodesKept
