pub mod Markup
pub mod Shown
pub mod Worked
