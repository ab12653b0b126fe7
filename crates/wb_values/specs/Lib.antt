-- trees and values, as mathematical objects
pub mod Tree
-- the kinds of plain values
pub mod Kinds
-- the signatures of productions
pub mod Signature
-- trees and values that fit signatures
pub mod Fits
-- what stored values stand for
pub mod ValuesIn
-- what the cells of packed values stand for
pub mod Packed
-- children of nodes that lie in place
pub mod InPlace
-- the trees of a store
pub mod Trees
-- how signatures are kept
pub mod Signatures
-- where each name is used first
pub mod NameIndex
pub mod Inner
