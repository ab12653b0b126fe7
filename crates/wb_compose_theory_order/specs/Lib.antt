-- a grammar in other numbers
pub mod Grammars
-- a language in other numbers, whatever the order of its forms
pub mod Languages
-- trees and stops in other numbers
pub mod Answers
-- what the laws say
pub mod Laws
-- lists in two orders, and where the numbers of the one union are in the other
pub mod Orders
-- languages of the unions of extensions in two orders
pub mod Unions
-- names of the numbers of a union
pub mod Names
pub mod Inner
