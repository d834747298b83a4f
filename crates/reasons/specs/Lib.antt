-- What the answer buffer tells of the nodes that have gone, and what the engine leaves in the room.
pub mod Told
