pub mod Printed
pub mod Inputs
