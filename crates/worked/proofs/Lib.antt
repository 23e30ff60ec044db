mod Lexed
mod Texts
mod Rows
