-- What every stage of painting shares.
pub mod Staged
