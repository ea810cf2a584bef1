pub mod Meanings
pub mod Tables
