-- The walk that finds one loop, over the tables of a lent room.
pub mod Walk
