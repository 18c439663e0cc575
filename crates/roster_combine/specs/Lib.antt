pub mod SolveFaults
