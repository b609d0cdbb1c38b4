pub mod Tests
pub mod Sets
pub mod Words
pub mod Searches
pub mod Members
pub mod Tables
