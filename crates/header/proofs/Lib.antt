-- The ways out of a header's counts.
mod Header
