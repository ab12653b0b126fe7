-- graphs, walks, and what they reach
pub mod Graphs
-- topological orders and cycles
pub mod Orders
-- strongly connected components
pub mod Components
pub mod Inner
