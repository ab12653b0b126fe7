-- which vertex of the definitions a vertex names
pub mod Vertices
-- what is a production's flow graph
pub mod Graphs
-- which equations are for a vertex
pub mod Rules
-- occurrences by nonterminal
pub mod Occurrences
-- sets of vertices to which walks lead
pub mod ReachSets
-- which inherited attributes of the top vertices reach
pub mod Tops
-- what the tests of flow types and cycles ask, and when each refusal is true
pub mod Refusals
-- that they have at most one answer
pub mod OneAnswer
-- lists to which values are added
pub mod Adding
-- what a node of an expression reads
pub mod Reads
-- what loops keep, and words of private functions
pub mod Inner
