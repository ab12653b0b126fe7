-- What each command on a text reports, and which files it comes to read; and what those on files report.
pub mod Tree
pub mod Reading
pub mod Run
pub mod Generate
pub mod Edit
pub use Rattle.wb_program_files.specs.Commands.Show
pub use Rattle.wb_program_files.specs.Commands.Check
pub use Rattle.wb_program_files.specs.Commands.Certify
pub use Rattle.wb_program_files.specs.Commands.Value
pub use Rattle.wb_program_files.specs.Commands.Recheck
