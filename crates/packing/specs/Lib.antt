pub mod Packed
pub mod Told
pub mod Unpacked
pub mod Worked
