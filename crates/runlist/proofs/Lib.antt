mod Changes
mod Lists
mod Merged
mod Ones
mod Rows
