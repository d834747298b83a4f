-- The sweeps of the scanning engine: what was told so far, and what each sweep leaves.
pub mod Sweeps
