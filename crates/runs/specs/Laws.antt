-- The laws of a run that is edited, for this crate and those above to cite.
pub mod Runs
pub mod Pushing
pub mod Remaking
pub mod Editing
