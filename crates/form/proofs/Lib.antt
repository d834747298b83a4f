-- What reading answered and what calls give; bytes that were read, their rows and the walk over their edges.
pub mod Answers
pub mod Stored
pub mod Listed
pub mod Pairless
pub mod Spared
pub mod Drawn
