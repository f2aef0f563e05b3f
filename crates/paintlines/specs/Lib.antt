-- What is lent for a request, and what is known of requests.
pub mod Lent
pub mod Request
