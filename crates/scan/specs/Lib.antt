-- The scanning engine: its stages, and what is marked at their end.
pub mod Stages
