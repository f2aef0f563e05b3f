-- What document 02 (#106) says of a whole sheet that is painted in one call.
pub mod PaintedSheet
