pub mod ValidExtensions
