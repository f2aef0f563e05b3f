-- What is shown of the words of one record: what each rule means, and the theorems.
pub mod Kept
pub mod Theorems
