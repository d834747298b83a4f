pub mod Places
mod Edges
