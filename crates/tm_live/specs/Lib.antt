pub mod Growth
pub mod Tape
pub mod Kernel
pub mod Devices
pub mod Drive
