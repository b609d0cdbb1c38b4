pub mod Relations
pub mod Conflicts
pub mod Moves
pub mod Directions
