mod NodesPass
mod EdgesPass
mod OthersPass
