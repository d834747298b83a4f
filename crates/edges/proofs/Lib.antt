-- The ways out of an edge, edges one after the other, and the walk to the first bad id.
pub mod Small
mod Edge
pub mod Walk
