-- The node that is chosen next, and a whole stage: what the queue and the degrees in a lent room tell.
pub mod Next
pub mod Stage
pub mod Begin
