-- line feeds and characters
pub mod Characters
-- lines, columns and the lines that show a place
pub mod Place
-- what is shown of a line
pub mod Window
-- where a name is
pub mod Uses
-- where a line begins
pub mod LineStarts
pub mod Inner
