-- What is known of the next image of the stream.
pub mod Stream
