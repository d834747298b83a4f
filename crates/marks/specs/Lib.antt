-- The scanning engine's room: what its two tables say, and what each small step makes of them.
pub mod Tables
