-- what is added to a page, and how a run ends that writes it
pub mod Ends
