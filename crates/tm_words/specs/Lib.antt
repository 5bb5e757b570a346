pub mod Words
pub mod Numbers
pub mod Command
pub mod Watch
pub mod Scans
pub mod Forms
pub mod Parsers
