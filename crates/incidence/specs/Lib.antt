-- The incidence graph of a stored drawing: what its tables say, and what each step of making them leaves.
pub mod Incidence
