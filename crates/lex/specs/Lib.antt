pub mod Lexer
pub mod Sound
