pub mod Gost
