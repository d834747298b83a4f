-- Results: their sizes, and forms written from left to right, part by part; and the ways out of a call that writes a graph.
pub mod Results
pub mod Calls
pub mod Grows
pub mod Edges
pub mod Parts
pub mod Maps
