pub mod Meetings
pub mod ColumnCalls
pub mod FencePairs
pub mod ClashTables
