-- the machine value of a pointer to a workbench
pub mod PointerValues
