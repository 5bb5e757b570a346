pub mod Window
pub mod StandsFor
pub mod WindowOf
pub mod Recording
pub mod Resting
pub mod Contents
pub mod Laws
