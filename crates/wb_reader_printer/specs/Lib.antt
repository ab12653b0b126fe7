-- how a canonical text is put together
pub mod Inner
