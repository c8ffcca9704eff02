pub mod Begins
pub mod Taking
pub mod Turning
pub mod Holding
