-- What is shown of legs that lie off a window.
pub mod Laws
