pub mod Tables
pub mod Words
pub mod Answer
pub mod Lookup
pub mod Addresses
pub mod Written
