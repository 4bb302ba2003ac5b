pub mod Results
pub mod ToldLines
pub mod Allowing
