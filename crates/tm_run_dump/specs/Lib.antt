pub mod RunDump
