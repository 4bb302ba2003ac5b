pub mod Tests
pub mod Edges
pub mod Effects
pub mod Ways
pub mod Ticks
pub mod TimedEdges
