-- What is drawn, as the code writes it.
pub mod Parts
