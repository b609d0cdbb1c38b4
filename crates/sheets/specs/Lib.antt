pub mod Limits
pub mod Refusals
pub mod Graphs
pub mod Footprints
pub mod Columns
pub mod ColumnLaws
pub mod Fences
pub mod FenceLaws
