-- the relations reads, includes and looks back, and the lookaheads that they bring
pub mod Relations
-- what loops keep, and words of private functions
pub mod Inner
