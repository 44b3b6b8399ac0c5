-- Laws that the kernels share.
pub mod Ends
pub mod Results
