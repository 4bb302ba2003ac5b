-- What covers a row covers its edges, and has no duty that the row has not.
pub mod Covers
pub mod RowMoves
pub mod KeptDuties
pub mod Follows
pub mod SetBounds
pub mod MessageEdges
pub mod IfEdges
pub mod IfFollows
pub mod EdgeLaw
pub mod Shapes
pub mod ShapedEdges
pub mod ShapedIfs
pub mod EdgeShapes
pub mod LostEdges
pub mod ElseRows
pub mod Said
