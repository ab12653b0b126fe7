-- terminals of a grammar that is a part of a world
pub mod Terminals
